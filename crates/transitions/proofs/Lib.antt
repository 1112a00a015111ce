-- The laws that the functions' proofs cite.
pub mod Fields
pub mod Transitions
