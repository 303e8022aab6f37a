pub mod Faults
pub mod Words
pub mod ProblemText
pub mod Seen
pub mod Writing
pub mod Stored
