-- Definitions that the contracts cite.
pub mod Root
pub mod RootSteps
pub mod Order
pub mod Power
pub mod Samples
