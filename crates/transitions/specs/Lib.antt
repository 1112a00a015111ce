-- What the reader of transitions answers, by the definitions of `model`.
pub mod Transitions
