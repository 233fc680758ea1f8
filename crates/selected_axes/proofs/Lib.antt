-- Laws.
pub mod Tables
pub mod Tests
pub mod Placed
pub mod Starting
pub mod Finishing
pub mod Courses
