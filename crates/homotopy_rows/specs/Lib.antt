pub mod Powers
pub mod Stored
pub mod Points
pub mod Flat
pub mod Writing
pub mod Answers
