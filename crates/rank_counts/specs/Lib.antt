-- What is counted, by the definitions of `model`.
pub mod Tallies
