-- Definitions that only private functions cite.
pub mod Fields
pub mod Changes
pub mod Writer
