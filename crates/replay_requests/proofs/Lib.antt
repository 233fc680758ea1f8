-- Laws of the lines.
pub mod Printing
pub mod Testing
