mod Filled
pub mod Fronts
