pub mod Packets
pub mod Streams
pub mod Readings
pub mod Blocks
