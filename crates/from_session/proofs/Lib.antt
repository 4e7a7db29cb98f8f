pub mod Turns
pub mod Answers
