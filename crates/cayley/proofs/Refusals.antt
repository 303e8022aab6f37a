-- the first fault of a file or a problem
pub mod FileShapes
pub mod Repeats
pub mod FileFaults
mod Stable
pub mod SupportFaults
pub mod ProblemShapes
pub mod ProblemFaults
pub mod SecondHeights
