pub mod Steps
pub mod Frame
pub mod Rows
pub mod Stores
pub mod Commas
pub mod Heights
pub mod Items
pub mod Cuts
