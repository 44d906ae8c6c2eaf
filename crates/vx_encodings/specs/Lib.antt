pub mod AllEncodings
