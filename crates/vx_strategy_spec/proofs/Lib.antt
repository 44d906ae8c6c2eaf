pub mod Lookups
pub mod AdmittedLaws
