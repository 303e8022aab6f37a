pub mod LogText
pub mod Forms
pub mod Writing
