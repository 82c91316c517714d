pub mod Operands
pub mod Reading
pub mod Updated
pub mod Hooked
pub mod Hooks
pub mod Shown
pub mod Attached
