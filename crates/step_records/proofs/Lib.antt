pub mod Listings
pub mod Ahead
