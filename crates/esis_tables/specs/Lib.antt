pub mod Laws
pub mod Room
pub mod Rows
pub mod Stands
pub mod Swept
pub mod Told
pub mod steps
