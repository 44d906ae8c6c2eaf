pub mod Fronts
pub mod History
pub mod Turns
