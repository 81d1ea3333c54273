pub mod Forms
pub mod Newline
