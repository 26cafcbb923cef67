pub mod Clearing
pub mod Spread
pub mod Full
pub mod Owner
pub mod Version
pub mod Pair
