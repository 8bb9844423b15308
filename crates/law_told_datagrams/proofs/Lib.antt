mod Places
mod Played
mod Read
mod Users
