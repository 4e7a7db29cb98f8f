pub mod Tails
pub mod Sets
pub mod Packing
pub mod Turns
pub mod Room
