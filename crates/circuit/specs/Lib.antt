pub mod Workings
pub mod Circuits
