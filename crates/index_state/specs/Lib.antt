pub mod Index
pub mod Calls
pub mod Run
pub mod Claims
