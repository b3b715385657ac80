pub mod FromInput
pub mod Causes
pub mod Prices
mod T6Bits
mod T6Changes
mod T6Decoding
mod T6Distances
mod T6Lookup
pub mod T6Rows
mod T6Runs
mod T6Spans
mod T6Steps
mod T6Tables
mod T6Worked
