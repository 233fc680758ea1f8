-- Laws that the proofs of other crates cite.
pub mod Windows
pub mod Filling
pub mod Parts
pub mod Seams
pub mod Joined
pub mod Written
pub mod TwoParts
