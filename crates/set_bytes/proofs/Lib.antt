pub mod Comparison
pub mod SetBytes
pub mod Answers
pub mod Examples
