pub mod Cases
pub mod Kinds
pub mod Refusals
pub mod Answers
