pub mod Counts
pub mod Fails
pub mod Faults
pub mod Told
