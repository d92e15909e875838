pub mod Counting
pub mod Kit
pub mod Words
pub mod Counts
pub mod Conditions
