mod Rising
pub mod Positions
pub mod Turns
mod Together
pub mod Supports
mod Coprime
pub mod Levels
mod Verdicts
pub mod OneAnswer
pub mod PlainPoints
pub mod MixedLines
pub mod LowestLevel
mod Multiples
pub mod WorkedSums
pub mod WrittenLines
mod FirstEntries
mod Blind
mod Over
pub mod PlainSums
mod Circuits
mod Spots
mod PointOver
pub mod Least
