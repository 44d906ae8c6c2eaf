pub mod Jobs
pub mod Staffed
pub mod Worked
pub use Rattle.vx_column_machine.specs.Course
pub use Rattle.vx_column_machine.specs.Causes
