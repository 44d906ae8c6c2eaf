pub mod Arranged
pub mod NodeSegments
pub mod ColumnSegments
pub mod SegmentNaming
pub mod Places
mod Examples
