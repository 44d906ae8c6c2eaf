pub mod StrategyData
pub mod Walk
pub mod Admitted
pub mod Dispatch
