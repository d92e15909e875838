pub mod Construct
pub mod Equality
