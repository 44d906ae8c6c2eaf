pub mod Tree
pub mod Moves
pub mod Stands
pub mod Start
pub mod Runs
pub mod Laws
pub mod StartPlanned
