pub mod RowText
pub mod ZoneText
pub mod TraceText
pub mod Report
pub mod TableView
