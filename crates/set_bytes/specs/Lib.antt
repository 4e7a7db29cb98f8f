pub mod SetBytes
pub mod Examples
