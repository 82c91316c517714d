pub mod Fault
pub mod Step
pub mod Reading
pub mod Migrated
pub mod Sure
