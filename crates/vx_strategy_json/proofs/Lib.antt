pub mod Depths
pub mod Fixed
pub mod Refused
pub mod Paths
pub mod Steps
