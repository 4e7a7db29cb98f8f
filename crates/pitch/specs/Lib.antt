pub mod Pitch
pub mod Standard
