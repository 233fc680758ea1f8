-- Definitions that the contracts cite.
pub mod System
pub mod Add
pub mod Solve
