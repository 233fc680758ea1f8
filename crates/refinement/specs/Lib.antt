-- Definitions that the contracts cite.
pub mod Memory
pub mod Kept
pub mod Refit
pub mod Round
pub mod Refined
