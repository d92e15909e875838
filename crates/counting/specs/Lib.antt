pub mod Times
pub mod Lists
pub mod Conditions
pub mod Joined
