pub mod Segments
pub mod Moves
pub mod Laws
pub mod MoveText
