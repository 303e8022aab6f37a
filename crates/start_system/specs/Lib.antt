pub mod Corners
pub mod Started
pub mod Laws
