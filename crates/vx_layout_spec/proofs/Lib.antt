pub mod CellsFit
pub mod LayoutLaws
pub mod RealLaws
