pub mod Expedited
pub mod Formats
pub mod Number
pub mod Receiver
pub mod Sender
pub mod Traffic
pub mod Window
