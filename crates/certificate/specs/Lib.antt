-- Definitions: what the code's structs stand for (Structs), and document 01's numbers of its answers (Outcome). The figure and the answer
-- are defined in crate `figure`.
pub mod Outcome
pub mod Quick
pub mod Structs
