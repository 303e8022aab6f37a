pub mod Path
mod Early
mod Complete
mod Perturbed
pub mod Started
pub mod Making
mod Judging
mod Worked
