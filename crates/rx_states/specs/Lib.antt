pub mod Beside
pub mod Edges
pub mod Facts
pub mod Forms
pub mod Matches
pub mod Sides
