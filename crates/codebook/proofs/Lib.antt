pub mod StageRows
pub mod Entries
pub mod Answers
pub mod Examples
