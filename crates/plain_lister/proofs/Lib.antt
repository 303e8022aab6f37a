mod Odometer
mod Turning
mod Picking
mod Listed
mod Shown
mod Plain
mod Growing
mod Numbering
pub mod PlainProblem
mod Judged
mod LinePlaces
mod LineTies
mod TieSearch
