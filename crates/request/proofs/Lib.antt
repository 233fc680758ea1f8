-- The laws that other crates may cite.
pub mod Anys
pub mod Chords
pub mod Counts
pub mod Normalised
pub mod Spaced
pub mod InPlace
pub mod ZeroToOne
