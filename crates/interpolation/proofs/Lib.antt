-- Laws about the definitions.
pub mod Knots
pub mod Placing
pub mod Turns
pub mod Outcome
