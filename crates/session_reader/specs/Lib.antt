pub mod Steps
pub mod Readers
