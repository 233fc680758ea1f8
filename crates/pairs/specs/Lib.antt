-- Definitions: what the code's pairs (Structs) and spreads (Spreads) stand for. The operations on pairs are defined in crate `fraction`.
pub mod Spreads
pub mod Structs
