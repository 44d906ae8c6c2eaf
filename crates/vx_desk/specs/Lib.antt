pub mod DeskView
