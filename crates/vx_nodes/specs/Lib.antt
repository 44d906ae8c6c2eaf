pub mod Joined
pub mod Given
