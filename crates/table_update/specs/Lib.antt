pub mod States
pub mod Exchanges
pub mod Answers
