-- Laws.
pub mod Gathered
pub mod Normalising
