pub mod HeldSteps
pub mod FlatSteps
pub mod ColumnSteps
pub mod HoldingSteps
