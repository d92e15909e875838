pub mod Whole
pub mod Lists
pub mod Used
pub mod Exact
