-- Laws about the cases.
pub mod Printing
pub mod Products
