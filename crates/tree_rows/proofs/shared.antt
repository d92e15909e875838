pub mod Pinned
pub mod Rooms
