pub mod Words
pub mod Endings
pub mod Sayable
pub mod Messages
pub mod Report
