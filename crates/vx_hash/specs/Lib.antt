pub mod Lanes
pub mod Words
pub mod XxHash3
