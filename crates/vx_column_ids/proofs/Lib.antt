pub mod Moves
pub mod Pointers
