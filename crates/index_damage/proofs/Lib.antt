pub mod Joins
pub mod Rows
