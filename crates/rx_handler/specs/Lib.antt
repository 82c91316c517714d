pub mod Resolve
pub mod Handlers
pub mod Shown
