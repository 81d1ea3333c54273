pub mod Roots
pub mod Forms
