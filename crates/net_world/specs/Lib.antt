pub mod Fifo
pub mod First
pub mod Prompt
pub mod Run
pub mod Told
pub mod steps
