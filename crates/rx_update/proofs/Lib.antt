pub mod Values
pub mod Kept
pub mod Hooking
pub mod Finding
pub mod Keyless
pub mod Standing
