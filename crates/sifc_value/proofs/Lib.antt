pub mod Scanned
pub mod Worked
pub mod Literal
pub mod Cases
