pub mod Generated
pub mod TableStrategy
