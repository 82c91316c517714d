pub mod OneRoot
pub mod Climbing
pub mod Forests
pub mod Tables
pub mod Levels
pub mod Depth
pub mod Listed
pub mod Walks
