pub mod Links
pub mod Viewed
pub mod Walks
