-- Laws that the proofs of other crates cite.
pub mod PartitionPoint
pub mod PointWithin
pub mod Lengths
pub mod Breaks
pub mod Inserted
pub mod InsertPlaced
pub mod PolynomialPlaced
pub mod Span
pub mod JoinedParts
pub mod WideSpans
pub mod SpansPut
