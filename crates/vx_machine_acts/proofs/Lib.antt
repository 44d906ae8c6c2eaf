pub mod GatherSteps
pub mod JoinSteps
pub mod RunJoins
pub mod ActMoves
pub mod GroupShows
pub mod StopSteps
pub mod ActShows
pub mod TakeShows
