pub mod FunctionResults
pub mod TextViews
