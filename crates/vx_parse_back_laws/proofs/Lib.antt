pub mod Layouts
pub mod Streams
pub mod TableSpecs
pub mod NodeLayouts
pub mod ColumnLayouts
pub mod WrittenLaws
pub mod Known
mod Examples
