pub mod Accounts
pub mod Searchers
pub mod Teams
pub mod PathSearches
pub mod Walkers
