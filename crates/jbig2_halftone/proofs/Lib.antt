pub mod FromInput
pub mod Causes
pub mod CausesOfRegions
mod CellLemmas
mod DrawSteps
mod GrayCounts
mod GrayLemmas
mod HalftoneLemmas
mod LaneLemmas
mod PatternLemmas
mod PlaneLemmas
pub mod Prices
mod RowLemmas
mod WholeCellLemmas
mod WholeCellPrices
mod WorkedHalftones
mod WorkedParts
