pub mod PageErrors
pub mod PagePixels
pub mod SegmentErrors
pub mod SymbolErrors
