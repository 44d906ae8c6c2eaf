mod Examples
pub mod Sorts
pub mod OrderLaws
pub mod TextOrder
pub mod BoundLaws
pub mod FilterLaws
pub mod PruneLaws
pub mod TableLaws
pub mod HashLaws
