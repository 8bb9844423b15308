mod AskedLines
mod Legible
