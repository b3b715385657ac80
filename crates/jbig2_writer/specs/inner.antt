pub mod Rows
pub mod Segments
pub mod Windows
