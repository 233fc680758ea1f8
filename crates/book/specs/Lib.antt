-- The definitions of Piegl and Tiller, The NURBS Book (second edition), over exact fractions. `proofs/Theorems` says what equals them.
pub mod Fractions
pub mod Basis
pub mod Curve
pub mod Insertion
pub mod Audit
