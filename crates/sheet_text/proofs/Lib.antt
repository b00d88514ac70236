pub mod Lengths
pub mod Cards
pub mod Walks
pub mod Splits
