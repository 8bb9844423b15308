mod Indices
mod Parts
mod Passing
mod Places
mod Waiting
