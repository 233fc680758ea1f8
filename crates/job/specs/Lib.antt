-- Definitions that the contracts cite.
pub mod Job
pub mod Reading
