pub mod Held
pub mod Kept
pub mod Refusals
pub mod Walks
pub mod Rules
pub mod Regrouping
