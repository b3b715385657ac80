pub mod AgreeingPages
mod AgreeingRegions
mod AgreeingSymbols
mod AgreeingTexts
pub mod FromInput
pub mod DrawingFromInput
pub mod Books
pub mod ByPages
pub mod Causes
pub mod Chunks
mod Complete
pub mod Direct
pub mod DrawingSteps
pub mod DrawnPages
mod FileRows
pub mod KeptLemmas
mod LeftLemmas
pub mod Order
pub mod PackedBits
mod PackedRows
mod PageArea
mod Paying
mod PutLemmas
mod RegionSizes
mod RowValues
pub mod Refusing
pub mod Runs
pub mod Sending
pub mod SegmentCauses
pub mod SeenRows
pub mod Salvaging
mod SegmentTypes
mod Shades
pub mod Sides
pub mod Spelling
pub mod Untouched
mod WorkedParts
mod WorkedRefinements
mod WorkedRows
mod WholeRows
mod WorkedTexts
