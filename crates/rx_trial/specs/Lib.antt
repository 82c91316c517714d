pub mod Drawing
pub mod Printing
pub mod Lines
pub mod Summary
