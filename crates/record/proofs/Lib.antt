-- The laws behind the readers' proofs, and those that the replay cites of a record that was read.
pub mod Places
