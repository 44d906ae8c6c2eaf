pub mod Reacting
pub mod Following
pub mod RunsSent
pub mod ColumnsSent
pub mod Widths
