pub mod Faults
pub mod QuerySpec
pub mod Order
pub mod Result
pub mod Reading
pub mod Lists
pub mod States
pub mod After
