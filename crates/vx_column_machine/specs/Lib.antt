pub mod Course
pub mod Underway
pub mod Causes
pub use Rattle.vx_machine.specs.Progress
pub use Rattle.vx_machine.specs.View
