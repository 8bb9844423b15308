pub mod Journals
pub mod OneRun
pub mod Runs
pub mod Shown
pub mod Standing
pub mod Taking
pub mod Units
