mod Clashes
mod Coming
pub mod CutRuns
mod Alone
pub mod Cuttings
mod Deliveries
pub mod Determined
mod Dues
pub mod Joins
pub mod Lists
mod Meetings
mod Fills
mod Pieces
mod Read
mod Rooms
pub mod Slots
mod Spans
mod Storing
mod Stretches
mod Taking
pub mod Units
mod Wholes
