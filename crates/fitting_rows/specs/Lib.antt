-- Definitions that the contracts cite.
pub mod Arrays
pub mod Samples
pub mod Pieces
pub mod Penalty
