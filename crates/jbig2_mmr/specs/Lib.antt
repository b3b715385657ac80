pub mod Causes
pub mod Steps
pub mod T6
pub mod T6Codes
pub mod inner
