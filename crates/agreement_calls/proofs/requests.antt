pub mod Boxes
pub mod Lists
pub mod Largest
pub mod Quiet
pub mod Listing
pub mod Tap
pub mod Answers
