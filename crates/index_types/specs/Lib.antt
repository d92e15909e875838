pub mod rooms
pub mod Boxes
pub mod Slots
pub mod Refusals
pub mod Equality
