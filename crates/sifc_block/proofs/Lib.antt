pub mod Steps
pub mod Blocks
pub mod Bindings
pub mod Ends
