pub mod Preparing
pub mod Copying
