pub mod Revision
pub mod Place
pub mod Documents
pub mod Change
