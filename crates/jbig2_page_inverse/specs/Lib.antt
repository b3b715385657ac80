pub mod PageFile
pub mod PageWriter
