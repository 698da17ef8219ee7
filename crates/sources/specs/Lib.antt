pub mod Listings
pub mod Lookups
pub mod Openings
