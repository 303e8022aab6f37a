pub mod Bools
pub mod CommonDivisors
pub mod Dividing
mod Lowest
pub mod Order
mod Quotients
pub mod Ring
pub mod Signed
pub mod Turns
