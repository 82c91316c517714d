pub mod Side
pub mod Migrated
