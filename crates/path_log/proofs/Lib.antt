mod Spans
mod Written
pub mod LogBack
pub mod LogForms
