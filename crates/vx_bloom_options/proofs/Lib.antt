pub mod ReadOptions
