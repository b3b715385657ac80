mod BitLemmas
mod ChoiceLemmas
mod CodeTables
mod CutLemmas
mod ModeLemmas
mod PlaceLemmas
mod RowLemmas
mod RunLemmas
