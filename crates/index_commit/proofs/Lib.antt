pub mod Acts
pub mod Rooms
pub mod Loop
pub mod Keep
pub mod Agree
pub mod Queue
