pub mod PageErrors
pub mod PagePixels
mod PageWorked
pub mod SegmentErrors
pub mod SegmentTypes
pub mod SymbolErrors
