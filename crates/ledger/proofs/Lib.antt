pub mod Perms
pub mod Ordered
pub mod Lending
pub mod Lawful
