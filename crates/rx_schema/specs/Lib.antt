pub mod Property
pub mod Names
pub mod Reading
pub mod Writing
pub mod Lawful
pub mod Validity
pub mod Lent
