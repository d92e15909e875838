pub mod calls
pub mod remove
pub mod commit
