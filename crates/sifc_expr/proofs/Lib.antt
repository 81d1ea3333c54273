pub mod Depth
pub mod Levels
pub mod Parts
