pub mod Filed
pub mod Turn
pub mod Fold
pub mod Sizes
pub mod Keep
pub mod After
