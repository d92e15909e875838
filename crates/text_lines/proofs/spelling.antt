pub mod Back
pub mod Nan
pub mod Parted
pub mod Spelt
