pub mod JobParts
pub mod JobText
pub mod JobView
pub mod Refusals
pub mod KeyNames
pub mod TreeText
pub mod TreeView
