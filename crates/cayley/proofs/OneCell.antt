-- one cell: its rows, normals, dependencies and lines
pub mod CellOrder
pub mod EdgeRows
pub mod CellNormals
pub mod CellLines
pub mod OneDependency
pub mod OneNormal
pub mod Gaps
pub mod LowestTerms
pub mod MovingNormals
pub mod MovingWalls
pub mod CellRows
pub mod RestingGaps
pub mod PutPairs
pub mod RaisedRanks
pub mod Neighbours
