pub mod Packets
pub mod Messages
pub mod Seen
pub mod Faults
pub mod Asked
pub mod Following
pub mod Laws
pub mod inner
