pub mod Setters
pub mod Structure
pub mod SlotOrder
pub mod Commit
pub mod Requests
pub mod Readings
