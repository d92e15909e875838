pub mod Node
pub mod Loop
pub mod Rooms
pub mod Parents
