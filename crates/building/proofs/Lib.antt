pub mod Computing
pub mod Passing
pub mod Finished
pub mod Answering
