pub mod Worked
pub mod Scattered
pub mod Examples
pub mod Sharp
pub mod Formed
