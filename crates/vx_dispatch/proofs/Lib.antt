pub mod DispatchLaws
mod Examples
