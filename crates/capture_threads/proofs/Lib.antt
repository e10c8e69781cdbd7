pub mod Gathering
pub mod Capturing
pub mod Placing
