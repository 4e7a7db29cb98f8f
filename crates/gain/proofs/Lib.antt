-- The laws of the gain levels, in the order of the definitions.
pub mod SecondLevel
pub mod FirstLevel
pub mod Answers
