mod EntrySteps
mod ColumnSteps
mod Turning
mod Exchanging
mod Lowering
mod DividedColumns
mod Growing
mod CellMoves
pub mod Rooms
pub mod FromRows
mod LowestRows
mod Across
pub mod Normals
pub mod PairFalls
pub mod Independence
mod OneInverse
mod Between
pub mod PairSigns
mod CellFlips
