pub mod Ids
pub mod Encodings
pub mod Scope
pub mod Made
pub mod Kinds
pub mod Builder
pub mod Views
pub mod Aggregates
