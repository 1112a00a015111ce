-- The laws that the functions' proofs cite. `Values` says what an answer tells of what was read; whoever reads a transition cites it.
pub mod Values
pub mod Expressions
pub mod Evaluation
