-- Definitions that the contracts cite.
pub mod Region
pub mod Assembly
pub mod Fit
