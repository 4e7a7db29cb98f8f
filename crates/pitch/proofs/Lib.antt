pub mod Classes
pub mod Codes
pub mod Damage
pub mod Standard
pub mod Answers
