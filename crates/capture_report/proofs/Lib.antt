pub mod Zeros
pub mod Sayable
pub mod Joined
