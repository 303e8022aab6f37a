-- values, times and lines over time
pub mod Lexicographic
pub mod Proportion
pub mod Lines
pub mod Times
pub mod Lined
pub mod Zeros
pub mod Spans
