-- Laws that the proofs cite.
pub mod Among
pub mod Orders
pub mod SamePairs
pub mod Bits
pub mod Turning
pub mod Promises
