pub mod requests
pub mod commit
