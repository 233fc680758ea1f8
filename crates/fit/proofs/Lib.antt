-- Laws about the definitions.
pub mod Placing
pub mod Turns
pub mod Solution
pub mod Fitting
pub mod Bounds
pub mod RowCounts
