pub mod Begun
pub mod Captures
pub mod Places
pub mod inner
