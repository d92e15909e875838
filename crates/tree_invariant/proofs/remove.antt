pub mod Counts
pub mod Entries
pub mod Fold
pub mod Keep
pub mod Agree
