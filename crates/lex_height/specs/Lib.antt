pub mod Divisors
pub mod Entries
pub mod Order
pub mod Room
pub mod Values
