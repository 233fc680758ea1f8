-- Definitions that the contracts cite.
pub mod Span
pub mod Piece
pub mod Outcome
pub mod Interval
pub mod Largest
pub mod Audit
pub mod Placed
