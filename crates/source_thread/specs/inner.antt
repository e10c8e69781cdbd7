-- Definitions that only private functions cite.
pub mod Readers
pub mod Sending
