pub mod Lanes
pub mod Places
pub mod Filters
pub mod ReadBack
pub mod ValueFits
pub mod Examples
