pub mod Laws
pub mod Others
pub mod Within
