pub mod Ending
pub mod Lines
pub mod Naming
pub mod Numerals
pub mod Sending
