pub mod ContextLemmas
pub mod EntryLemmas
pub mod PackedLemmas
pub mod PageLemmas
pub mod RowLemmas
pub mod SegmentLemmas
pub mod WindowLemmas
mod WriterWorked
