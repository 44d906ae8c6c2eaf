pub mod Errors
pub mod FirstFault
pub mod SegmentView
