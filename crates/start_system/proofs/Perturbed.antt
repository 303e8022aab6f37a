-- the path of a file of version 2 is tie free
mod Ranks
mod Functionals
mod Indicators
mod Sums
pub mod TieFree
