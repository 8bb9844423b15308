mod Calling
mod Opening
mod Opens
mod Requests
mod Stepping
mod Unconfirmed
mod Waiting
pub mod Acting
pub mod Asking
pub mod Beginning
pub mod Causes
pub mod Directions
pub mod FirstFits
pub mod Fitting
pub mod Going
pub mod Growing
pub mod Keeping
pub mod LinedPairs
pub mod NoErEntities
pub mod NoErRows
pub mod Pairs
pub mod Parting
pub mod PartingPairs
pub mod PartingRows
pub mod Quieting
pub mod Recovering
pub mod Resting
pub mod Sending
pub mod SendingAgain
pub mod Settling
pub mod Showing
pub mod Spoken
pub mod Steps
pub mod Timely
pub mod Trying
pub mod Urging
