pub mod Written
pub mod Limits
mod Counts
pub mod ListingBack
pub mod Formed
