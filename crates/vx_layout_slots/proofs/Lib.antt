pub mod MetadataSteps
pub mod SlotSteps
