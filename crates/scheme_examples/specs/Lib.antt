pub mod Whole
pub mod Nested
