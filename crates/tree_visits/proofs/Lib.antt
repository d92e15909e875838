pub mod Owner
pub mod Walked
pub mod Laws
pub mod Cover
pub mod Parents
pub mod Slots
pub mod Climb
pub mod Whole
