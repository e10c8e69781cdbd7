-- Definitions that only private functions cite.
pub mod Fields
pub mod Ranges
pub mod Invariant
pub mod Transitions
