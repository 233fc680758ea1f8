mod Refusals
mod Writing
-- The curve of an accepted request is well formed in its used cells.
mod UsedCells
-- Slices of the lengths told are never too short.
pub mod EnoughRoom
mod GivenFigure
mod Told
