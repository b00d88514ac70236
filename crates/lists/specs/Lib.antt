pub mod Entries
pub mod Listed
pub mod Places
pub mod Filled
