-- The pops on arrays.
pub mod Pops
