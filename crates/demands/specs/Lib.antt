-- How a caller reads a lent list, and the three demands.
pub mod Entries
pub mod Demands
