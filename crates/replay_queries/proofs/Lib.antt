-- Laws about the cases.
pub mod Telling
