pub mod Lines
pub mod Streams
pub mod Sums
pub mod Trials
pub mod inner
