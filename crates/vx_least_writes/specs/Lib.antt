pub mod LeastWrites
