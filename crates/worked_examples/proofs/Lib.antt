pub mod Worked
pub mod Scattered
pub mod Facts
pub mod Sharp
pub mod Able
