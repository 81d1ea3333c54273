pub mod Deepest
pub mod Signs
