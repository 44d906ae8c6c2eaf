pub mod BuildSteps
pub mod LabelSteps
pub mod NodeSteps
pub mod TreeSteps
pub mod WholeSteps
