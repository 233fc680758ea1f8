-- The definitions, what a reader must believe first. docs/FRACTIONS.md lists the main theorems.
pub mod Fraction
pub mod Rational
pub mod Sum
pub mod Binomial
pub mod Polynomial
pub mod Bernstein
pub mod Value
pub mod Magnitude
pub mod NextNumber
pub mod Rounding
pub mod DirectedSum
pub mod Pair
-- laws that make those well defined: each file says at its head what in it is a definition
pub mod Integer
pub mod Ring
pub mod Order
pub mod WellDefined
pub mod RationalRing
