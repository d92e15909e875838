pub mod steps
pub mod transforms
pub mod boxes
pub mod levels
