pub mod States
pub mod Events
pub mod Runs
pub mod Contents
