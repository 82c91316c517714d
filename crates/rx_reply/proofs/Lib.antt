mod Examples
pub mod Floats
