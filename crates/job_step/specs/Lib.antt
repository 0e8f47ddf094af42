pub mod InsideRun
pub mod Frame
pub mod Run
pub mod Least
pub mod Segment
pub mod SegmentFields
