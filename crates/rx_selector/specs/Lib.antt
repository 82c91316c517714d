pub mod Tree
pub mod Holding
pub mod Operand
pub mod Values
pub mod Operators
pub mod Reading
