pub mod Visits
pub mod Visited
pub mod Known
