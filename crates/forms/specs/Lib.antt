-- Definitions that the contracts cite.
pub mod Read
pub mod Groups
pub mod Form
