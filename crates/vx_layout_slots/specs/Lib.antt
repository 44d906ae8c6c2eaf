pub mod Slots
pub mod SlotTypes
pub mod SlotWalk
