-- The starred lanes, computed.
pub mod Examples
-- Answers, and what an accepted request or a lane that passes the checks tells of its steps.
pub mod Accepted
pub mod Gives
pub mod Passed
-- The course of the steps, walked once.
pub mod Course
-- How long the arrays are.
pub mod Sizes
pub mod Rooms
pub mod Tallies
-- The ends of the spline.
pub mod EndControls
-- The source's `seed` ends.
pub mod SeedEnds
-- Knots and breaks rise, and an accepted curve is well formed.
pub mod Everywhere
pub mod KnotsRise
pub mod SegmentsRise
pub mod WellFormed
-- The numbers of refusals.
pub mod Refusals
-- Higher limits, and rows that are not smoothed.
pub mod RaisedRounds
pub mod HigherLimits
pub mod UnsmoothedRows
-- The parameters as a list.
pub mod AsListed
pub mod Refused
