pub mod Spelled
pub mod Words
