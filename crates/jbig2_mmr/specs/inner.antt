pub mod T6Calls
pub mod T6Reading
pub mod T6Steps
