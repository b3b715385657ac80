pub mod Fronts
pub mod SegmentViews
