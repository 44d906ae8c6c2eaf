pub mod Views
pub mod CellViews
pub mod Lists
pub mod FitSteps
pub mod Texts
pub mod RealSteps
pub mod ValueSteps
pub mod Examples
