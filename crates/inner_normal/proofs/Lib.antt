pub mod PairEquations
pub mod RowEquations
pub mod CellAnswers
pub mod CommonFactors
pub mod FileNormals
pub mod RowUnits
pub mod ScaledSums
pub mod PairNumbers
pub mod Reading
pub mod Meaning
pub mod Faults
pub mod InverseSteps
pub mod CoefficientSteps
mod Bounded
pub mod RankOrder
mod WithinBounds
pub mod PairLists
