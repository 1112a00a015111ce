-- Lists through the pool: what the operations make of the tables, and what it means that these hold lists.
pub mod Lists
pub mod Chains
