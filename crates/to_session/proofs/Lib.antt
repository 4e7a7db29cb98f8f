pub mod Inputs
pub mod Longest
pub mod Answers
