pub mod Calls
pub mod Whole
pub mod Listed
pub mod RecordLaws
