-- Laws.
pub mod OneSpelling
pub mod Exact
pub mod Places
pub mod Numbers
pub mod Longer
pub mod Words
pub mod Putting
