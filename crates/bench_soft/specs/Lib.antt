pub mod SoftFrames
