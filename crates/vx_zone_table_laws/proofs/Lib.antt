pub mod StateCells
pub mod WholeTables
pub mod TableTypes
