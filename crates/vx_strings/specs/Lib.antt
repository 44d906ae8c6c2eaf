pub mod StringCells
