pub mod Lists
pub mod Path
pub mod Sort
