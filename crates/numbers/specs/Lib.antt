pub mod Rounded
pub mod Number
