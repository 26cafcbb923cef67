pub mod Rows
pub mod Turns
pub mod Applied
pub mod Lent
