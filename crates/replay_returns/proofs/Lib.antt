-- Laws about the cases.
pub mod Returning
