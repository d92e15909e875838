pub mod spelling
pub mod words
