-- Definitions that the contracts cite.
pub mod Sort
pub mod Thin
