-- Definitions that the contracts cite.

pub mod Search
pub mod Segment
pub mod Range
pub mod Row
pub mod Query
pub mod Lent
