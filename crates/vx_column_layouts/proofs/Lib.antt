pub mod Joining
mod Numbered
mod Places
