-- Laws.
pub mod Spelling
pub mod Places
pub mod Front
