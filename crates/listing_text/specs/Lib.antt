pub mod Writing
pub mod Listings
pub mod ListingText
pub mod Forms
