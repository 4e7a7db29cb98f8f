pub mod Least
pub mod Choice
pub mod Prices
pub mod Claims
