pub mod BitFieldLemmas
pub mod BitLemmas
pub mod BitmapCauses
mod BlockLemmas
pub mod CauseSteps
pub mod Causes
pub mod ColourLemmas
mod CombineLemmas
pub mod CountLemmas
pub mod ErrorSteps
pub mod FillLemmas
pub mod FromInput
pub mod GridLemmas
pub mod MadeLemmas
pub mod NumberLemmas
mod OperatorCauses
mod PackedLemmas
pub mod Prices
pub mod ReaderLemmas
mod RunLemmas
pub mod SearchLemmas
pub mod WriteLemmas
