pub mod Joins
pub mod Front
pub mod Rows
