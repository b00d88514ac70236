pub mod Fits
pub mod Sizes
pub mod Opened
pub mod Leaving
pub mod Following
pub mod Singles
pub mod Unleft
