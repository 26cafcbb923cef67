pub mod Effects
pub mod Slips
pub mod Held
pub mod Driven
