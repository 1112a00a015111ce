-- The pool, as rows of numbers.
pub mod Entries
