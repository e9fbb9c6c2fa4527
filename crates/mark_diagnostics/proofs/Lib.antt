mod Counting
mod Numbers
mod Ranges
mod StopsAlike
mod Telling
mod Warned
