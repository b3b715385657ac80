pub mod BitmapInverse
mod BitmapWorked
pub mod CodedLength
pub mod CoderStates
pub mod Digits
pub mod FileInverse
mod FileWorked
pub mod GenericInverse
pub mod GenericSegmentInverse
pub mod IntegerInverse
pub mod IntegerRanges
mod IntegerWorked
pub mod Packing
pub mod PrefixInverse
pub mod PrefixMembers
pub mod PrefixReading
pub mod PrefixRoom
mod PrefixWorked
pub mod RegionInverse
mod RegionWorked
pub mod RowBits
pub mod RowCodes
pub mod RowCredits
pub mod RowInverse
pub mod RowLengths
pub mod RowModes
mod RowWorked
pub mod SegmentInverse
mod SegmentWorked
pub mod SequenceInverse
mod SequenceWorked
