pub mod Members
pub mod Independence
