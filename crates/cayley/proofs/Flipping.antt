-- what stands before and after a wall
pub mod OneSupport
mod PairOrder
pub mod Exchange
pub mod Places
pub mod FlipScenes
mod FlipSides
pub mod FlipNeighbours
mod FlipSpots
pub mod FlipPlaces
mod FlipParents
pub mod FlipChildren
mod FlipOrder
pub mod FlipSigns
pub mod CellNumbers
