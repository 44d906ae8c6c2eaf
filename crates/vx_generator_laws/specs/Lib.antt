pub mod TableWrite
