-- The laws of the nearest level and of the codes chosen by it.
pub mod NearestLevel
pub mod Thresholds
pub mod RaisedLevels
pub mod Codes
