pub mod Text
pub mod Grammar
