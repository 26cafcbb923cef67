pub mod Chained
pub mod Cases
