pub mod Relate
pub mod PlanLists
pub mod Spots
pub mod FlatLaws
pub mod ChunkedLaws
pub mod GroupLaws
pub mod ColumnLaws
pub mod ZoneRecords
pub mod ZonedLaws
pub mod DictLaws
pub mod Numbering
pub mod Fronts
pub mod SourceLaws
pub mod InOrderLaws
mod Examples
mod NodeExamples
