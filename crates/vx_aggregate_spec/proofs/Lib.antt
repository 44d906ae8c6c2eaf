pub mod SpecLaws
