-- The laws of lists through the pool; the queues' proofs cite them.
pub mod EntryLists
pub mod Changes
pub mod Chains
pub mod Chained
pub mod Searches
