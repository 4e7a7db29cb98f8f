pub mod SharedIndices
pub mod Places
pub mod Numbers
pub mod Answers
