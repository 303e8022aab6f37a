-- what the calls make: corners, one entry and one point after the other
pub mod Entries
pub mod Numbers
pub mod Least
pub mod Directions
mod Limits
pub mod Parts
pub mod ValidPaths
pub mod NoFaults
