pub mod PlacingLaws
pub mod Applied
