pub mod BesideAnswers
pub mod Compressors
pub mod RunsBeside
