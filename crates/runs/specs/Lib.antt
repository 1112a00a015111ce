-- The items of a record on arrays, and the promise of whoever takes them.
pub mod Items
pub mod Promise
