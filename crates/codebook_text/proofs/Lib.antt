-- The laws of the text form: lines and digits for the readers, then the grammar.
pub mod Lines
pub mod Digits
pub mod Signs
pub mod Turns
pub mod Answers
pub mod Decimals
pub mod Spelling
pub mod Readback
pub mod Grammar
