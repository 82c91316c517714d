pub mod Events
pub mod Good
