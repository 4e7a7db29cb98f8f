pub mod Order
pub mod Fields
pub mod Carrying
pub mod Listing
pub mod Placing
pub mod Taking
pub mod SoftTaking
pub mod Tested
