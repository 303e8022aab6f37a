mod Shapes
mod Law
mod Steps
mod Makes
mod MakeLaw
pub mod Caller
pub mod Numbers
pub mod Words
pub mod Ranges
