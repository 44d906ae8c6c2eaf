pub mod AllAdmitted
pub mod PlaceSteps
pub mod Writers
pub mod Apart
pub mod Wrappers
