pub mod Sums
pub mod Sides
pub mod Tests
pub mod Ties
pub mod Judgements
pub mod Answers
pub mod Written
