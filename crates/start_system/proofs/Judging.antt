-- what the calls on a problem judge: whether its corners are those of a path, and its start cell
pub mod Supports
pub mod StartPairs
pub mod Corners
pub mod StartedProblems
