pub mod Effects
pub mod Lent
