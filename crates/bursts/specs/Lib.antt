pub mod Flips
pub mod Width
pub mod Distances
pub mod Claims
