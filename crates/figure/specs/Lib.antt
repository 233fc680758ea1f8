-- Definitions: the figure (Operations, Intersection, Halving, Figure), what is certified, as slices hold it (Axis), the certificate's
-- answer (Certify), and what the distance theorem says of the figure (Distance).
pub mod Axis
pub mod Certify
pub mod Distance
pub mod Figure
pub mod Halving
pub mod Intersection
pub mod Operations
