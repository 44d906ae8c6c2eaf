pub mod View
pub mod Stocks
pub mod Sizes
pub mod Ledger
pub mod Ready
pub mod Counting
