pub mod Lines
pub mod Saturated
