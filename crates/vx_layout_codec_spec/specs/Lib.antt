pub mod Permitted
pub mod NodeOf
pub mod Bytes
pub mod Parsed
pub mod Sound
pub mod Again
