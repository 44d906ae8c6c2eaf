pub mod Views
pub mod Steps
pub mod Lists
pub mod Values
pub mod Members
