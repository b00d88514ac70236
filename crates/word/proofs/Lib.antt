pub mod Bits
pub mod Words
pub mod Sets
pub mod Counts
