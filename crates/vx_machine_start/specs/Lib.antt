pub mod Starting
pub mod Weight
