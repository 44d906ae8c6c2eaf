pub mod Reading
pub mod Pieces
pub mod Segment
pub mod Codec
pub mod Examples
pub mod Spelled
