pub mod Readings
pub mod Followings
pub mod Honest
pub mod Deciding
pub mod Askings
