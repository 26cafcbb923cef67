pub mod Worked
pub mod States
