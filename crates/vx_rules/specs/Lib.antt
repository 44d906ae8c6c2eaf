pub mod Stream
pub mod Regroup
pub mod Blocks
pub mod Flushes
pub mod Columns
pub mod Runs
pub mod Statements
