-- What is told of each item.
pub mod Trails
