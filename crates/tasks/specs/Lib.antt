pub mod Manned
pub mod Turns
pub mod Stations
