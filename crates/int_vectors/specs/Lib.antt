pub mod Vectors
pub mod Fits
pub mod Bounds
pub mod Contents
pub mod RowSteps
pub mod Refusals
