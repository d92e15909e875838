pub mod Steps
pub mod Turns
pub mod Counts
pub mod Whole
