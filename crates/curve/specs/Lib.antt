-- Definitions that the contracts cite.

pub mod Places
pub mod Form
pub mod Put
