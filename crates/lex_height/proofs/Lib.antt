pub mod Ranks
pub mod Comparing
mod Heads
mod Quotients
pub mod Forms
mod Room
mod Fractions
pub mod Signs
