pub mod TableRows
pub mod ZoneRows
pub mod PrunedLaws
mod Examples
