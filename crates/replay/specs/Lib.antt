pub mod Answers
pub mod Opening
pub mod Runs
pub mod Texts
pub mod Views
