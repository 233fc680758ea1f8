-- Definitions that the contracts cite.
pub mod Bytes
pub mod Text
