-- the supports of a path: file points, corners and their ranks
pub mod Positions
pub mod Shape
pub mod Reach
pub mod Hull
pub mod Numbering
pub mod Supports
pub mod Forms
pub mod Still
