pub mod Finding
pub mod Keep
pub mod Fits
