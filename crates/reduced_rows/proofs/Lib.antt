pub mod Answered
mod Carrying
pub mod CleaningAll
pub mod Combinations
pub mod Entries
pub mod InverseSums
mod KernelEntries
pub mod LeastMultiple
mod Multiples
pub mod Orthogonal
pub mod Outcome
pub mod Picking
pub mod Run
pub mod Shape
pub mod Solving
pub mod SpanSteps
