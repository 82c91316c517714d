pub mod WordKinds
mod Examples
pub mod Layouts
pub mod Parts
pub mod Runs
pub mod Taken
pub mod Turns
pub mod Unfair
pub mod NumberFacts
pub mod Granted
