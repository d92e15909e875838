pub mod Commit
pub mod Agree
