-- Laws about the definitions.
pub mod Walk
pub mod Placed
pub mod Counts
pub mod Above
pub mod Largest
pub mod Six
