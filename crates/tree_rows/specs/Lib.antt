pub mod sound
pub mod damage
