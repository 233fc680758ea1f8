-- The laws.
pub mod Above
pub mod Close
pub mod Formula
pub mod Largest
pub mod Measuring
pub mod Nearness
pub mod Rounds
