pub mod Members
pub mod Sorted
pub mod Steps
