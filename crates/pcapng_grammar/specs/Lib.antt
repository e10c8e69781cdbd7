pub mod Options
pub mod Blocks
pub mod Files
pub mod Defects
pub mod Words
pub mod Written
pub mod Laws
pub mod inner
