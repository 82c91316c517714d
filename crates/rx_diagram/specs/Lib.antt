pub mod Asked
pub mod Building
pub mod Laws
pub mod Nodes
