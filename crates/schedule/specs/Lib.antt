pub mod Reading
pub mod Schedules
pub mod Whole
pub mod Lines
