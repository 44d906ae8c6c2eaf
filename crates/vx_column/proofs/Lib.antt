pub mod Steps
pub mod Flat
pub mod SizeLaws
pub mod JoinSteps
pub mod Lents
