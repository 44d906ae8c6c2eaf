pub mod Same
pub mod Dictionaries
pub mod ImageLaws
mod Examples
