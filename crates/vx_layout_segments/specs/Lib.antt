pub mod Segments
pub mod InTurn
