pub mod orientations
