-- What the source's `build` gives: `Build.build_of`, in the order of its steps.
pub mod Request
pub mod Answer
pub mod Rows
pub mod Checks
pub mod State
pub mod Start
pub mod Round
pub mod Finish
pub mod Interpolate
pub mod Build
pub mod Rising
pub mod Lanes
pub mod Refusal
