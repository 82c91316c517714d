pub mod Forest
pub mod Laws
pub mod Table
pub mod Orders
