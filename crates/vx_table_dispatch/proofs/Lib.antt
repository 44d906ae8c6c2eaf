pub mod Below
pub mod Dispatched
pub mod Settling
