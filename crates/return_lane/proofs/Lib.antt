-- The theorems.
pub mod Exact
pub mod Returned
pub mod Rows
pub mod Answered
