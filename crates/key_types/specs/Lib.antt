pub mod Sector
pub mod Wear
