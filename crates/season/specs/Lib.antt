-- Definitions that the contracts cite.
pub mod Files
pub mod Printed
pub mod Next
pub mod Run
