pub use Rattle.vx_machine_start.specs.Starting
