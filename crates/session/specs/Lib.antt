pub mod Moved
pub mod Good
pub mod Moves
pub mod Sequence
