pub mod Fronts
pub mod Lists
pub mod Lengths
pub mod Spelled
