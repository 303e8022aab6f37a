pub mod Generator
pub mod Lifts
pub mod Cyclic
pub mod Scatter
pub mod Seen
