pub mod Made
pub mod Turn
pub mod Lists
