pub mod Fronts
pub mod Spots
pub mod EntryLaws
pub mod LexedLaws
pub mod PartLaws
pub mod Kept
