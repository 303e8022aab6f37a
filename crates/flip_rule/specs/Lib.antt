pub mod Few
pub mod Signs
pub mod Rules
pub mod Walls
