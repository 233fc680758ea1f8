pub mod Outcome
pub mod Computed
pub mod Answered
