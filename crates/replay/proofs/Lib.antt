-- The ends of a record's items, what comes before them, and what the answer tells whoever calls.
pub mod Ending
pub mod Reading
pub mod Accepting
