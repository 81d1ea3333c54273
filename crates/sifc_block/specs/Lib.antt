pub mod Lists
pub mod Bound
