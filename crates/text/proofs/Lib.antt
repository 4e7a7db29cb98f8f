pub mod Writes
pub mod Puts
pub mod Answers
pub mod Additions
pub mod Decimals
pub mod Pairs
pub mod Sizes
pub mod Parts
