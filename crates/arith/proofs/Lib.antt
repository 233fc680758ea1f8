-- Laws that the proofs of other crates cite.
pub mod Firsts
pub mod Truth
pub mod Loops
pub mod Rows
pub mod Choice
pub mod Nan
pub mod Runs
pub mod FloatOrder
