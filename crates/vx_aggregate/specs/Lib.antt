pub mod AggregateView
pub mod Specs
pub mod Stats
pub mod Tables
