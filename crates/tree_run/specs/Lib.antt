pub mod Told
pub mod Run
