-- Laws that the proofs cite.

pub mod BitOrder
pub mod Searching
pub mod Sets
pub mod Parts
pub mod Filled
pub mod Columns
pub mod Rooms
pub mod Answered
pub mod Standing
