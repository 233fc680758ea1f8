-- Definitions that the contracts cite.
pub mod Pairs
pub mod Order
pub mod Sets
pub mod Outcome
