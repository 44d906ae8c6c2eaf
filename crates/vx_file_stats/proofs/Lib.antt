pub mod ColumnSteps
pub mod FoldLaws
pub mod GatheredSteps
pub mod KeepSteps
pub mod LegacySteps
pub mod PieceTypes
pub mod SizeSteps
pub mod SumSteps
