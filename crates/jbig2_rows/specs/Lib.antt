pub mod Generator
pub mod Words
