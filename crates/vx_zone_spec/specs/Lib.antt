pub mod ValueOrder
pub mod Bounds
pub mod Record
pub mod ZoneTable
pub mod Pruning
pub mod ZoneMap
pub mod Statements
