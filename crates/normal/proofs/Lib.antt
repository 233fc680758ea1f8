-- Laws that the proofs cite.
pub mod Places
pub mod Region
pub mod Pivots
pub mod Outcomes
pub mod Arrays
pub mod Turns
