pub mod Examples
pub mod Places
pub mod Following
pub mod Good
pub mod Ends
