pub mod BitLists
pub mod Blocks
pub mod Combines
pub mod GridsBefore
pub mod Layouts
pub mod Packed
pub mod Shapes
pub mod WordBits
