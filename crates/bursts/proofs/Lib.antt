pub mod Tests
pub mod Pairs
pub mod Parts
pub mod Flips
pub mod Windows
pub mod Distances
pub mod WordA
pub mod Claims
