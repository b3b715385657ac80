pub mod Agreeing
pub mod AgreeingCutOffs
pub mod AgreeingSegments
pub mod ByteCauses
pub mod DataCauses
mod Extends
pub mod FileHeaderCauses
mod FileRows
pub mod FromInput
pub mod InitialCauses
pub mod PageCauses
pub mod RandomAccess
pub mod SegmentCauses
pub mod SegmentLemmas
pub mod Sequential
pub mod Sorting
mod Spelling
