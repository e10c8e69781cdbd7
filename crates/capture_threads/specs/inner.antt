-- Definitions that only private functions cite.
pub mod Places
pub mod Prepared
