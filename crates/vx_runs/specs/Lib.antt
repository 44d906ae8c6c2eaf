pub mod Cutting
pub mod CutterData
