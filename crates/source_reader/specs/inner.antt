-- Definitions that only private functions cite.
pub mod Cutting
pub mod Stages
