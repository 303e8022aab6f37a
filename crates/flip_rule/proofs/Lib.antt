pub mod NumberSigns
pub mod Rules
mod Walls
pub mod Pairs
mod Worked
