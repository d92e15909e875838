pub mod Forest
pub mod Table
pub mod Sound
pub mod Walk
