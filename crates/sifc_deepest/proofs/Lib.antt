pub mod SignsLaws
pub mod DeepestLaws
pub mod Depth
pub mod Reached
pub mod Shallow
