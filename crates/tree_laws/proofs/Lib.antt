pub mod Whole
pub mod Ground
pub mod Counts
pub mod Taken
pub mod Records
