pub mod Flat
pub mod Examples
