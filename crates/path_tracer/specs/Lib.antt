pub mod Rows
pub mod Nodes
pub mod Traced
