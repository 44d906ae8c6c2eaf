pub mod Asked
pub mod ChildView
pub mod NodeKind
pub mod OpenView
pub mod PartsView
pub mod PreOrder
pub mod Present
pub mod TreeWalk
