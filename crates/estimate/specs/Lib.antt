-- Definitions: the plain operations, and what the code's structs stand for.
pub mod Measure
pub mod Plain
pub mod Structs
