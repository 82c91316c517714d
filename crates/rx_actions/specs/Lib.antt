pub mod Moves
pub mod Right
