mod Limits
mod NewNames
mod Written
