pub mod Calls
pub mod Clear
pub mod Loading
pub mod Greatest
pub mod PlaceLaws
pub mod TokensLaws
