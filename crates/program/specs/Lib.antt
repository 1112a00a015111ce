-- What the reader of programs answers, by the definitions of `model`.
pub mod Starts
