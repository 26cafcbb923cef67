pub mod Cleared
pub mod Slots
pub mod FullLaws
pub mod OwnerLaws
pub mod VersionLaws
