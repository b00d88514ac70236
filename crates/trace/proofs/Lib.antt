pub mod Moves
pub mod FirstPins
pub mod Ways
pub mod Causes
pub mod WaysBack
pub mod Moved
pub mod Traces
