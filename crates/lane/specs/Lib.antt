-- Definitions that the contracts cite.
pub mod Lane
pub mod Printed
pub mod Room
