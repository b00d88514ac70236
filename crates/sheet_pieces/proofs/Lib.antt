pub mod Left
pub mod Steps
pub mod Standing
pub mod Fits
pub mod Pieces
