-- Laws.
pub mod Printing
pub mod Requests
pub mod Answers
