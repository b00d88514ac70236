pub mod Operations
pub mod Histories
pub mod Cards
pub mod Benches
