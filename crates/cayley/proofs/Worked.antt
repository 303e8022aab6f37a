-- worked problems, from the definitions alone
mod Paths
mod Squares
pub mod OnePoint
mod LevelPoints
pub mod ThreePoints
mod Perturbed
pub mod Walls
mod NamedPlaces
pub mod TwoPoints
