pub mod Number
pub mod Given
pub mod Parsed
pub mod Words
