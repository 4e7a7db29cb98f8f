pub mod Answers
pub mod Output
pub mod LongFiles
pub mod Inputs
