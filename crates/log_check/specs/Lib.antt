pub mod Numbers
pub mod Nodes
pub mod Products
pub mod Walled
pub mod Laws
pub mod Walks
pub mod Verdicts
pub mod Dues
