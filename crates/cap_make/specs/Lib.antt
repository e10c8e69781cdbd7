pub mod Generator
pub mod Streams
pub mod Laws
