pub mod rooms
pub mod Local
