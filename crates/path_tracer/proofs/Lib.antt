mod RowSteps
mod Matrices
mod Inverses
mod FurtherPoints
mod Walks
mod Ends
