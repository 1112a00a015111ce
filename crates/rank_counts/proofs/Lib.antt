-- Counts of ranks, one rank after the other.
pub mod Tallies
