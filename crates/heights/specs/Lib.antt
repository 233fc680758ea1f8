-- Definitions that the contracts cite.
pub mod Weights
pub mod Controls
pub mod Height
pub mod Places
pub mod Lifted
pub mod Exact
pub mod Sets
pub mod Heights
