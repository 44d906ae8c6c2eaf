pub mod Answering
pub mod PTypes
pub mod SmallLaws
pub mod Specs
pub mod SpecLaws
pub mod StatLaws
