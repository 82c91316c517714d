pub mod Plan
pub mod Closed
pub mod Exact
pub mod Count
pub mod Rows
pub mod Onto
pub mod Choice
pub mod Way
