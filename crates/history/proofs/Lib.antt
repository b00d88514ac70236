pub mod Changes
pub mod Flags
pub mod Ran
pub mod Histories
