pub mod Call
pub mod Example
