pub mod Base
pub mod BaseLaws
pub mod Kind
pub mod Reserved
pub mod Spelling
