pub mod Refusal
pub mod ParseErr
