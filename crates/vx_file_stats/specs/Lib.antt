pub mod Precisions
pub mod FileStats
pub mod Gathering
pub mod Gathered
pub mod Legacy
pub mod Sources
