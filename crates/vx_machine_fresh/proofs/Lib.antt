pub mod StartCauses
pub mod ZoneStarts
