pub mod Between
mod EntryRule
pub mod ExitRule
mod Found
pub mod Leading
pub mod Lists
pub mod Once
pub mod Parts
pub mod Values
mod OneWay
mod SpanEnds
mod TieRule
mod TieSteps
