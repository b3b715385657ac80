pub mod ExtendedTemplate
pub mod RasterDecisions
mod RasterWorked
pub mod Steps
pub mod SymbolClasses
mod SymbolWorked
pub mod TextLists
mod TextWorked
