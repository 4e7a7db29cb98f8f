pub mod Layout
pub mod Packing
pub mod Parities
