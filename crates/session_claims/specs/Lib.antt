pub mod Reading
pub mod Claims
pub mod Calls
pub mod Examples
