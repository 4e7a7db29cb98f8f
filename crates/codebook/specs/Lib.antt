pub mod Rows
pub mod RowNumbers
pub mod Examples
