pub mod Marks
pub mod Steps
pub mod Whole
pub mod Splits
pub mod Sums
pub mod Spelled
pub mod Examples
pub mod Written
