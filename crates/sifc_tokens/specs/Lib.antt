pub mod Tokens
pub mod Loaded
pub mod Place
