pub mod Tests
pub mod Keys
pub mod Ledger
pub mod Lending
pub mod Law
