pub mod Admits
pub mod BlockLen
