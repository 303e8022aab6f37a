-- valid files and started problems have the form of a path
pub mod Heights
pub mod DefaultRows
pub mod Reranking
pub mod SearchLaws
