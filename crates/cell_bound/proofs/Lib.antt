mod RowRanges
mod Circuits
mod CellWorkings
mod Apart
mod Spreads
pub mod SmallFiles
mod Worked
