pub mod Elements
pub mod Frames
pub mod Padding
pub mod Texts
pub mod Answers
pub mod Examples
