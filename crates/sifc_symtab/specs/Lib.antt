pub mod Toks
pub mod Chains
pub mod Table
pub mod Entry
pub mod Seek
pub mod View
pub mod Laws
