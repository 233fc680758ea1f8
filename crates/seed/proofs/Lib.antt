-- Laws that the proofs cite.
pub mod Narrowing
pub mod Scanning
pub mod Writing
pub mod Joining
pub mod Seeded
pub mod Middle
pub mod Windows
pub mod FirstWaypoint
pub mod SourceScan
