pub mod Lex
pub mod Bytes
