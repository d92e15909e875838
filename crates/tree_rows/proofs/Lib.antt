pub mod Rows
pub mod Rooms
