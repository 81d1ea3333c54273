pub mod Place
pub mod Post
pub mod Items
pub mod Bytes
pub mod Spans
