pub mod Steps
pub mod Changes
pub mod Rows
