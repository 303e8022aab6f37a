-- lists, and properties of each pair, by places
pub mod Pairs
pub mod Supports
pub mod Reaching
pub mod KnownPoints
