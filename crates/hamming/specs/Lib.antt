pub mod Word
pub mod Table
