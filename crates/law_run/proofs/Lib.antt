pub mod Calm
pub mod CalmDrawn
mod CalmNames
pub mod CalmNet
mod CalmRows
pub mod CalmRun
pub mod Handled
pub mod Lawful
pub mod ScriptRuns
pub mod Served
pub mod WorldLaws
