-- Definitions that the contracts cite.
pub mod Totals
pub mod Lanes
pub mod Kept
