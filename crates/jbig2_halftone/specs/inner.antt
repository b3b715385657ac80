pub mod CellPlaces
pub mod DictionaryViews
pub mod FunctionResults
pub mod GrayScaleViews
pub mod HalftoneHeaderViews
pub mod NextValues
pub mod PatternHeaderViews
