pub mod Context
pub mod Readers
pub mod WorkLimit
