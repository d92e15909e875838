pub mod Rects
pub mod rounded_rect_radii
pub mod rounded_rect
pub mod constructed
pub mod Clips
pub mod Equality
