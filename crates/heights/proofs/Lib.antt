-- Laws.
pub mod Rows
pub mod Sums
pub mod Signed
pub mod Places
pub mod Rounds
pub mod Exact
pub mod Filled
pub mod Placed
pub mod Answered
pub mod Segment
pub mod Examples
