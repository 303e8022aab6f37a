-- parents, chains, shares and sizes
pub mod Parents
pub mod Chains
pub mod Listing
pub mod Members
pub mod Counting
pub mod Shares
pub mod Steps
pub mod FilePoints
pub mod ComputedLaw
pub mod Strangers
