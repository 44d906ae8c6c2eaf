pub mod Options
pub mod Forms
pub mod StrategyText
pub mod Views
pub mod Refusals
