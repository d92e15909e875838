pub mod slots
pub mod Insert
