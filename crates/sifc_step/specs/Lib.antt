pub mod Abs
pub mod Small
pub mod Book
pub mod Items
