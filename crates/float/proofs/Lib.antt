-- The laws that other crates may cite.
pub mod SquareRoot
pub mod Extremes
pub mod TotalOrder
pub mod Powers
-- What the proofs here use.
mod Tests
mod Squares
mod Rounding
mod Middles
mod Exponents
mod Scales
mod Checks
mod RootCases
mod OrderCases
mod Halving
