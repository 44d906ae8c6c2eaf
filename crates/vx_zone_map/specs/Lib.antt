pub mod PredicateView
pub mod Comparisons
pub mod Columns
pub mod Tests
pub mod MapView
pub mod Answers
pub mod Statements
