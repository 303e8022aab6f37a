pub mod Commands
pub mod Buffers
pub mod Runs
