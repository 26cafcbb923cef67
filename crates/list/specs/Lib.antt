pub mod Calls
pub mod Slips
