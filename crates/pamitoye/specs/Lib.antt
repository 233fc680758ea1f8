-- Definitions that the contracts cite.

pub mod Choices
pub mod Rooms
pub mod Builds
pub mod Queries
pub mod Certificates
pub mod LaneFiles
