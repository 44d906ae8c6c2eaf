pub mod Aggregate
pub mod Statements
pub mod Tables
