pub mod text
pub mod taps
pub mod tap_lines
pub mod Answers
