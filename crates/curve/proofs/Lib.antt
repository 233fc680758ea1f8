-- Laws that the proofs cite.

pub mod Order
pub mod Counting
pub mod Placing
pub mod SameBits
pub mod Formed
pub mod Putting
pub mod Padded
pub mod Shaped
