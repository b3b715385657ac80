pub mod LaneCounts
pub mod WorkLemmas
