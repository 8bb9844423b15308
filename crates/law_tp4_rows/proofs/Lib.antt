pub mod Giving
pub mod GivingRows
pub mod Leaving
pub mod RowsWithout
