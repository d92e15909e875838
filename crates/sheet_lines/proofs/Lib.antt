pub mod Signs
pub mod Caps
pub mod Spaces
pub mod Cuts
pub mod Bounds
