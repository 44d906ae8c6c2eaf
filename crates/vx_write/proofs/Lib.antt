pub mod Imaging
mod Joined
mod Refusing
mod Leading
mod Tracing
mod Writing
mod Stopping
mod Reading
mod Answering
mod WriteSteps
mod RanSteps
mod LentSteps
mod ReadSteps
mod Unstuck
