pub mod Inserts
pub mod Steps
