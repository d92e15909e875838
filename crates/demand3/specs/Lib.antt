pub mod Claims
pub mod Full
pub mod Damage
