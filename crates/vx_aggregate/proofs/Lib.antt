pub mod Fields
pub mod Named
