pub mod Answers
pub mod Ids
pub mod Local
pub mod Outlet
