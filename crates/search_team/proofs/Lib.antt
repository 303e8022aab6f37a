pub mod Balances
mod Members
mod Ready
pub mod Expanded
mod Turned
mod Begun
mod Summed
pub mod Chained
mod Stopped
pub mod Starts
