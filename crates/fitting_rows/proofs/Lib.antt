-- Laws about the definitions.
pub mod Rooms
pub mod Turns
