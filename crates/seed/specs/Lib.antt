-- Definitions that the contracts cite.
pub mod Corridor
pub mod Anchors
pub mod Knots
pub mod Regions
pub mod Placed
