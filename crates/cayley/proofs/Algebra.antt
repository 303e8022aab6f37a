-- linear algebra over whole numbers
pub mod Dependence
pub mod Kernel
pub mod ScaledInverse
pub mod Deciding
pub mod RowDependencies
pub mod RowNormals
