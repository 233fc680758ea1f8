-- Laws.
pub mod NextFile
pub mod Running
pub mod Turns
pub mod FileOrder
pub mod Printing
pub mod Examples
pub mod OneSpelling
