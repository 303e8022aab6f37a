-- at all early times the start cell is alive, and no other cell
mod Values
mod Families
pub mod FilePoints
pub mod Corners
pub mod StartCell
