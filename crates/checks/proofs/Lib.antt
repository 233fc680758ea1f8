pub mod Selected
pub mod Passed
pub mod Domain
