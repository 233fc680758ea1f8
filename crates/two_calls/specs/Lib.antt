-- Two calls of an entry point, each by its contract.
pub mod Building
pub mod Certifying
pub mod Returning
