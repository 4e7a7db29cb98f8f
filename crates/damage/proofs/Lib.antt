pub mod Repair
pub mod VoicedFrames
pub mod Return
pub mod AnyOrder
pub mod Syndromes
pub mod Arrival
pub mod SoftReturn
