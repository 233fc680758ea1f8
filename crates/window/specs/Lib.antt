-- Definitions that the contracts of other crates cite.
pub mod Cells
pub mod Window
pub mod Parts
pub mod Rows
