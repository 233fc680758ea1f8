-- Laws.
pub mod Merging
pub mod Keeping
pub mod Answers
pub mod Examples
