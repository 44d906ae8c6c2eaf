pub mod SegmentLaws
pub mod TurnLaws
