-- The laws that the functions' proofs cite. `Programs` says what the reader's answer tells of the definition's program; whoever replays a program
-- cites it.
pub mod Loops
pub mod Programs
