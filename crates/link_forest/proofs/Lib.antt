pub mod Bools
pub mod Clauses
pub mod Counting
pub mod Holds
pub mod Lists
pub mod Whole
pub mod Focus
pub mod Laws
pub mod Shape
pub mod Walk
pub mod Arrays
pub mod Rep
pub mod Sound
mod Examples
