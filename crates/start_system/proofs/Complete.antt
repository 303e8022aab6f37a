-- the search from the start cell misses nothing
mod Chains
pub mod Shares
