pub mod Every
pub mod Exact
