pub mod Entries
pub mod Batches
pub mod Readers
pub mod Passing
pub mod Pieces
pub mod Causes
