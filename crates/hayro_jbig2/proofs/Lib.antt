pub mod Consuming
pub mod Held
mod Limits
