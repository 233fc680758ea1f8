-- Definitions that the contracts cite.
pub mod File
pub mod Curves
pub mod Outcome
pub mod Reading
