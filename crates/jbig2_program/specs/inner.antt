pub mod Printing
pub mod RequestViews
