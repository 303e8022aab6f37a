pub mod Workings
pub mod MovingNormals
pub mod LowestForms
pub mod Inverses
pub mod Coefficients
pub mod Orders
pub mod LeastDenominators
pub mod RankedNumbers
