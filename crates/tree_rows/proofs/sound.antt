pub mod Sound
pub mod Conditions
