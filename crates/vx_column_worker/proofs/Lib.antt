pub mod Refused
pub mod Handed
pub mod Begun
pub mod Ended
pub mod Staffing
pub mod Crossing
pub use Rattle.vx_column_machine.proofs.Begins
