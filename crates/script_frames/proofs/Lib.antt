mod Captured
mod Capturing
mod Framing
mod Short
mod ToldFrames
mod ToldLines
mod ToldNet
mod ToldSystems
