pub mod Items
pub mod Walk
pub mod Pushes
pub mod Validity
pub mod Accepted
pub mod Ordered
