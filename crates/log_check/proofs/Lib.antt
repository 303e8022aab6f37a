mod MatrixSteps
mod ProductSteps
mod Inverting
mod Walling
mod Circuits
mod Ending
mod Judged
mod Walks
mod WalkSteps
mod Expecting
pub mod OneRefusal
mod PassedNodes
mod DueTurns
mod LogSteps
mod SameNormals
pub mod RightLogs
pub mod SameLogs
pub mod FormedLogs
