-- Definitions that the contracts cite.
pub mod Any
pub mod Parameters
pub mod Points
