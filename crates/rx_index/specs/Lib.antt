pub mod Position
pub mod Packed
pub mod Ordered
pub mod Index
pub mod ByKey
