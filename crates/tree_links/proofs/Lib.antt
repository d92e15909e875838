pub mod Walk
pub mod Places
pub mod Found
