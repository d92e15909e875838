pub mod Corners
pub mod Records
pub mod Equality
