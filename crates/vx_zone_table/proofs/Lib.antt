pub mod BuilderSteps
pub mod CellSteps
pub mod FillSteps
pub mod Good
pub mod HeldSteps
pub mod Orders
pub mod PartSteps
