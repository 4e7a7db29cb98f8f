pub mod Text
pub mod Placing
