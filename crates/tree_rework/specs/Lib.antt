pub mod entries
pub mod Damage
pub mod preconditions
