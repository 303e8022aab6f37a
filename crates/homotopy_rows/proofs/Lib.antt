mod Summing
mod Spots
mod Collected
mod Dividing
mod Beside
mod LeastScale
mod ZeroAtPairs
pub mod FlatLines
mod Written
