pub mod FieldLaws
pub mod FieldLoops
pub mod PlaceLaws
pub mod PlaceLoops
