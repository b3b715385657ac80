pub mod FromInput
pub mod RegionsFromInput
pub mod Causes
pub mod CausesOfHeaders
pub mod CausesOfInstances
pub mod CausesOfRegions
pub mod CausesOfText
pub mod InstanceLemmas
pub mod PayingLemmas
pub mod RefiningLemmas
pub mod RegionLemmas
pub mod SymbolLemmas
pub mod WholeInstanceLemmas
mod WorkedCodedTexts
mod WorkedTexts
