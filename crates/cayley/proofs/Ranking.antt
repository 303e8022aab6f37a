-- ranks: what doesn't look at them, and which rank a point has
pub mod Unranked
pub mod RankedProblems
mod RankedFaults
pub mod Numbering
pub mod FirstRanks
pub mod StoredProblems
pub mod PlainProblems
pub mod MovedProblems
pub mod Unperturbed
pub mod FilePointRanks
