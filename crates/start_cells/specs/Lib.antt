-- The reading of a start into a table, as the code goes, and what it answers.
pub mod Reading
pub mod Answers
