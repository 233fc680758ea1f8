-- Laws.
pub mod Memories
pub mod Fits
pub mod Audits
pub mod Refreshed
pub mod Refitting
pub mod Turns
pub mod Inserting
pub mod Locating
pub mod Rounds
pub mod Refining
