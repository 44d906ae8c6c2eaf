pub mod Node
pub mod Values
pub mod Spelled
pub mod Reading
pub mod There
pub mod Views
