-- Demands 2 and 3 of every start; what a caller reads from the lent lists; the numbers of refusals; and the demands of the whole check.
pub mod Bytes
pub mod Entries
pub mod LastCells
pub mod Refusals
pub mod Outcomes
pub mod Demands
