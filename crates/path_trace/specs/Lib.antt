pub mod Preorders
pub mod Matrices
pub mod Inverses
