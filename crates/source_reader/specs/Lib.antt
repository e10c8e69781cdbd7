pub mod Reading
pub mod State
pub mod Laws
pub mod inner
