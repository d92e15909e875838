pub mod Constructed
