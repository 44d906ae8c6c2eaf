pub mod Stock
pub mod Balance
pub mod Laws
