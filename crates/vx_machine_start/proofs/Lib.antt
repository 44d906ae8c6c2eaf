pub mod StartWeights
pub mod CauseSteps
pub mod StartMoves
pub mod StartShows
pub mod StartRows
pub mod StartKinds
pub mod StartRooms
pub use Rattle.vx_machine_fresh.proofs.StartCauses
