pub mod Values
pub mod Lines
pub mod Output
