-- Definitions that the contracts cite.
pub mod Axes
pub mod Cases
pub mod Output
pub mod Lines
pub mod Modes
pub mod Sizes
