pub mod ExtendedTemplate
pub mod RasterDecisions
pub mod SymbolClasses
pub mod TextInstances
