pub mod Taken
pub mod Ran
pub mod Named
pub mod Numbers
pub mod Answering
pub mod Whole
pub mod Openings
