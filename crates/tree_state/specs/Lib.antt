pub mod Locals
pub mod Worlds
pub mod Tree
pub mod Sound
pub mod Whole
