pub mod Counts
pub mod Log
pub mod Rows
pub mod States
