pub mod Meaning
pub mod Marks
pub mod Carried
