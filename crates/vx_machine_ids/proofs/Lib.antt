pub mod Stocks
pub mod MoveLaws
pub mod CallLaws
pub mod IdMoves
pub mod Lists
pub mod Roots
