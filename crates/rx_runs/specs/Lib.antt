pub mod Run
pub mod Rows
pub mod Blocks
pub mod Name
pub mod Marked
