pub mod Numbers
pub mod Series
mod SeenPoints
mod PointLines
pub mod Kept
mod Distinct
pub mod ValidFiles
pub mod ReadProblem
pub mod ReadBack
pub mod WrittenWords
pub mod FileTexts
pub mod Written
