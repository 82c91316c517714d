pub mod Learning
pub mod Above
pub mod After
