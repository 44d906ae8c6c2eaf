pub mod Partial
pub mod Scalar
