pub mod fine
pub mod candidates
pub mod Taps
