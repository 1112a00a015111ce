-- What is made of a list of values, by the definitions of `model`.
pub mod Marking
