-- Definitions that the contracts cite.
pub mod First
pub mod Physical
pub mod Selected
