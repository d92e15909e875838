pub mod entries
pub mod Listings
