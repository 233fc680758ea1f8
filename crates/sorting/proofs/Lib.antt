-- Laws that the proofs cite.
pub mod Placing
pub mod Thinning
pub mod Sorted
pub mod Kept
