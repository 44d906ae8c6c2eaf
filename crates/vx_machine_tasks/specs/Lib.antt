pub mod Asking
pub mod Pairs
pub mod Steps
pub use Rattle.vx_machine_acts.specs.Acting
pub use Rattle.vx_machine_children.specs.Starting
