mod Minors
mod Directions
mod Factors
mod Columns
mod Choosing
mod Turns
mod Bounded
mod Fitting
pub mod Ahead
pub mod ByFactors
mod BoundSteps
