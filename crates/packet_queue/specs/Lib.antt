pub mod Queue
pub mod Batches
pub mod Calls
pub mod Ends
pub mod Fit
pub mod inner
