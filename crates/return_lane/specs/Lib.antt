-- Definitions that the contracts cite.

pub mod Segment
pub mod Return
