pub mod ChunkTakes
pub mod DictStarts
pub mod TableStarts
pub use Rattle.vx_machine_start.proofs.StartCauses
pub use Rattle.vx_machine_start.proofs.StartShows
pub use Rattle.vx_machine_start.proofs.StartRows
