mod AllCircuits
pub mod KeptChildren
mod ZeroLines
pub mod LinePoints
mod LaterLines
mod TwoEnds
mod OneAnswer
mod ShownEnds
mod FileCells
pub mod TiedEnds
mod FitWorkings
pub mod FileTargets
mod EndCauses
mod SettledBranches
mod OnTheWay
mod PassedEnds
mod PassTurns
pub mod PassLists
mod BesideOne
mod CellOrders
pub mod Sizes
pub mod Orders
pub mod Turns
pub mod Results
mod CountedShares
mod UntiedChildren
mod MadeEnds
mod LastCells
pub mod MadeBranches
mod PutChildren
mod TurnAnswers
