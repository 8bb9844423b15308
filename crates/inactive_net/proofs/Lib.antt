mod Calls
mod Longest
mod Passed
mod Strays
