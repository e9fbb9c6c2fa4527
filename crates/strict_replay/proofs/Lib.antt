mod Capped
mod Passing
