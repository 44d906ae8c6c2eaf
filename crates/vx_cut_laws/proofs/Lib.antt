pub mod Lists
pub mod Passing
pub mod Alike
pub mod Runs
