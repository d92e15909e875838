pub mod Bbox
