-- Walks along arrows, and what an order and a ring of the groups are, apart from how they are found.
pub mod Walks
pub mod Orders
