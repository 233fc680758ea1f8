-- Definitions that the contracts cite.
pub mod Search
pub mod Values
pub mod Powers
pub mod Insertion
pub mod Segments
pub mod Choose
pub mod Placed
