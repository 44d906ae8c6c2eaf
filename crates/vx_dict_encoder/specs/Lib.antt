pub mod Front
pub mod Coding
pub mod EncoderData
pub mod Statements
