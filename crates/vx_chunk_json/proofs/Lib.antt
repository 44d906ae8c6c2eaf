pub mod Sizes
pub mod Objects
pub mod TypeSteps
pub mod CellSteps
pub mod ChunkFits
pub mod ChunkSteps
pub mod ChunkTypes
