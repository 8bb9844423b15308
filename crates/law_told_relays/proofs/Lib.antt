mod Asking
mod Lines
mod Played
mod Pumps
