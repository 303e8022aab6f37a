-- when a cell is alive
pub mod Decisions
pub mod Begins
pub mod Ends
pub mod Exits
pub mod Levels
mod Ties
pub mod Crossings
pub mod Walls
pub mod LifeLaws
pub mod Targets
pub mod ShownTies
pub mod StillGaps
pub mod Still
pub mod Spots
pub mod NamedTies
pub mod LongerTimes
pub mod Soon
pub mod Mirror
