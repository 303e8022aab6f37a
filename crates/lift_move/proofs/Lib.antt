mod Ends
mod Complete
pub mod Lifted
pub mod Found
pub mod SegmentLaws
mod Widths
pub mod MoveFormed
