-- Definitions that the contracts cite.
pub mod Memory
pub mod Rows
