pub mod Source
pub mod Sink
pub mod Compressor
pub mod ContextView
