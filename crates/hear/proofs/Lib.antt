pub mod Buffer
pub mod Chunks
pub mod Example
pub mod Extent
