pub mod GuardView
pub mod Causes
