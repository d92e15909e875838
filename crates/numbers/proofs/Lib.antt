pub mod Bools
pub mod Numbers
pub mod Order
pub mod Signs
pub mod Placed
pub mod Bitwise
