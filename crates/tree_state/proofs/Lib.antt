pub mod Locals
pub mod Worlds
