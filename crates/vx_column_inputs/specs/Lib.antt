pub mod Prepared
pub mod Reading
