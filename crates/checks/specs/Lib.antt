pub mod Request
pub mod Checks
