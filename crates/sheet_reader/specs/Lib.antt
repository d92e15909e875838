pub mod Ahead
pub mod Blind
pub mod Ranges
