-- Laws.
pub mod Parts
pub mod Spelling
pub mod FormedCurves
pub mod Widths
pub mod Promises
pub mod Answers
pub mod AxisLists
pub mod Heads
pub mod Whole
pub mod ByteBreaks
pub mod Forming
pub mod Taking
pub mod Again
pub mod EnoughRoom
