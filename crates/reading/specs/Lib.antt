pub mod Reading
pub mod SoftReading
pub mod SoftClaims
