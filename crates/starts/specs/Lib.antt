-- What the code of starts works out on the way, by the definitions of `model`, and what is claimed of starts.
pub mod Writing
pub mod Reading
pub mod Claims
