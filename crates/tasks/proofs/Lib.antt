pub mod Manned
pub mod Plays
pub mod Begun
pub mod Refused
