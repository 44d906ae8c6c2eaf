pub mod Lists
pub mod Order
pub mod Path
pub mod Sort
