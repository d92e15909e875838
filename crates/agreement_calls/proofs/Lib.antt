pub mod Tests
pub mod Verdicts
pub mod Fresh
pub mod Frame
pub mod Setters
pub mod Onto
pub mod Insert
pub mod Reparent
