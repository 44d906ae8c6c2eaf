pub mod Paths
pub mod Masks
