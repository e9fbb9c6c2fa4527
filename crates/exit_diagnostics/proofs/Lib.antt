mod Followed
mod Removing
