pub mod Listed
pub mod Braces
mod Examples
