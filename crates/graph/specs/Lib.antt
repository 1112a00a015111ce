pub mod Edges
pub mod Drawn
