pub mod Loops
pub mod PieceSteps
pub mod Answering
pub mod BufferSteps
pub mod SegmentSteps
