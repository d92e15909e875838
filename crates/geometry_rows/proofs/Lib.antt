pub mod Numbers
pub mod Rectangles
pub mod Transforms
pub mod Clips
