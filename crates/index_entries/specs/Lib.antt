pub mod slots
pub mod reads
pub mod remove
pub mod Entries
