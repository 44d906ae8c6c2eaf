pub mod WalkSteps
pub mod AnswerSteps
pub mod FitSteps
pub mod PlaceSteps
