-- Definitions that the contracts cite.
pub mod Lending
pub mod Lines
