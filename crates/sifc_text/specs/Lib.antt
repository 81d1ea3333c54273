pub mod Stands
pub mod Bridge
pub mod Post
pub mod Demand3
