-- Definitions that the contracts cite.
pub mod Decimal
pub mod Lines
