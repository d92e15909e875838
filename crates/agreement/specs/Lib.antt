pub mod Read
pub mod Afresh
pub mod worlds
