pub mod Kept
pub mod Follow
pub mod Props
