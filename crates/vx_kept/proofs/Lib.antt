pub mod Parts
pub mod Keeping
pub mod Following
pub mod Asking
