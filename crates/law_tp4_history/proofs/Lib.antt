pub mod Agreed
pub mod Appended
pub mod Beginnings
pub mod Begun
pub mod Called
pub mod Calling
pub mod Closes
pub mod Complete
mod FlowCalls
mod FlowGoes
mod FlowHeard
mod FlowIn
mod FlowKept
mod FlowLines
mod FlowOffers
mod FlowOpened
pub mod FlowOut
mod FlowReceiving
mod FlowResends
pub mod FlowRows
mod FlowRule
mod FlowSending
mod FlowSends
pub mod FlowUnits
pub mod Halves
pub mod Later
pub mod Lines
pub mod Listed
pub mod Marks
pub mod Meets
pub mod Moves
pub mod Offered
pub mod Offers
pub mod Opens
pub mod Outstanding
pub mod Places
pub mod Queued
pub mod Rows
pub mod Sound
pub mod Sources
pub mod StepMoves
pub mod Steps
pub mod Taken
pub mod Telling
pub mod Tracked
pub mod WorkedSteps
pub mod Written
