pub mod bbox
pub mod Rectangle
pub mod Parts
pub mod Transform
pub mod Equality
