-- Definitions that the contracts of other crates cite.
pub mod First
pub mod Operations
pub mod Loop
