pub mod Deals
