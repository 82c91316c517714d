pub mod Member
pub mod Target
pub mod Link
pub mod Delivery
pub mod Asked
pub mod Since
pub mod Line
