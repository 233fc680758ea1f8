-- The theorems.
pub mod Theorems
pub mod Audit
-- The definitions computed.
pub mod Examples
pub mod Corners
-- Laws that prove the theorems: of terms and the order,
pub mod Terms
pub mod Order
-- of the basis functions and their readings,
pub mod Recurrence
pub mod Readings
pub mod Values
pub mod Powers
pub mod Division
-- of the curve, the code's span and the segments,
pub mod Curves
pub mod Spans
pub mod Segments
pub mod Polynomials
-- of insertion,
pub mod Cases
pub mod Boehm
pub mod Insertion
-- and of the source's `choose` and `powi`.
pub mod Binomials
pub mod WholePowers
