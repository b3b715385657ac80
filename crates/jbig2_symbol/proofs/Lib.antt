pub mod AggregateLemmas
pub mod FromInput
pub mod Causes
pub mod ClassCauses
pub mod ClassLemmas
pub mod CodedLemmas
pub mod CodingCauses
pub mod ConcatLemmas
pub mod CutLemmas
pub mod ExportErrors
pub mod ExportLemmas
pub mod ExportedLemmas
pub mod IdCodes
pub mod JoinedLemmas
pub mod MmrRows
pub mod PayingLemmas
pub mod ReadingCauses
pub mod SymbolCauses
pub mod TallClasses
pub mod UsedPixels
mod WorkedAggregates
mod WorkedCoded
mod WorkedSymbols
