pub mod Stride
pub mod Tables
pub mod Rooms
