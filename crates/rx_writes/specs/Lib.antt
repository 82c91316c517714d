pub mod Faults
pub mod Documents
pub mod States
pub mod Rows
