pub mod Fronts
pub mod FrontLaws
pub mod Steps
pub mod Encoders
mod Examples
