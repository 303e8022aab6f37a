mod Places
pub mod TokenLemmas
pub mod LineLemmas
pub mod NumberLemmas
mod SliceLemmas
pub mod WrittenLines
