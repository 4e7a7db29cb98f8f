pub mod Lines
pub mod Headers
pub mod Scans
