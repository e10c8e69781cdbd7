-- Definitions that only private functions cite.
pub mod Checked
pub mod Opened
pub mod Ends
