pub mod Keeping
mod Smaller
