pub mod Plan
pub mod Making
pub mod Laws
pub mod Writing
pub mod Compacting
