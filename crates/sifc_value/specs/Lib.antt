pub mod Remainder
pub mod Quotient
pub mod Decimal
pub mod Steps
pub mod Value
pub mod Scan
