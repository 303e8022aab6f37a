pub mod ProblemPoints
mod Pushing
mod MovingFrame
mod LineLists
pub mod FurtherLines
mod FineValues
mod RisingRanks
mod FineParts
pub mod Fining
pub mod Telling
pub mod Living
mod Outcomes
pub mod Making
mod RoomAround
mod LeadingLines
mod NarrowPoints
mod FrontEnds
mod Drifts
mod CellLines
mod PassingLines
mod RestingLines
mod DifferentRows
