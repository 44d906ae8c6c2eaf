pub mod FieldLaws
pub mod Loops
pub mod Skips
pub mod NodeLaws
pub mod Nodes
pub mod There
